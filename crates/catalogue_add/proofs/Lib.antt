-- Laws of an addition, over fields and bytes alone.
mod Added
mod Chains
mod Choice
mod Insert
mod New
mod Runs
mod Taken
mod Whole
