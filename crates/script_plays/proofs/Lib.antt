mod StateLines
mod ToldLines
