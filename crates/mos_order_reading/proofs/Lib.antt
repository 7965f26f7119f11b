mod Children
mod Loops
mod Stages
mod Taken
mod Walk
