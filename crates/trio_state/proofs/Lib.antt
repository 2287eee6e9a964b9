mod WorkedImages
mod WorkedBundles
mod WorkedRules
mod HostileBundles
mod Words
