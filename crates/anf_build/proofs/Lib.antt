mod Lists
mod Names
mod Slots
mod Blocks
mod UsefulForm
mod CalledForm
mod Shortness
