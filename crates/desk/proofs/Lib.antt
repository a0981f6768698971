mod Keeping
mod Fitting
mod Closing
