mod Trying
mod EnabledRows
mod Allowing
mod Choices
mod Fitting
mod Resting
