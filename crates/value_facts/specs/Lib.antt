pub mod FitValues
