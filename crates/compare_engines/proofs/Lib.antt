mod Agreeing
mod Copying
mod Growing
mod Passing
