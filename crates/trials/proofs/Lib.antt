mod Again
mod Fronts
