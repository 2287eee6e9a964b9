mod Children
mod Numbers
mod Listed
mod Fits
mod Words
