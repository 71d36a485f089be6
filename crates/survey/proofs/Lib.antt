pub mod Places
mod Tested
mod Seals
mod Answers
mod Searches
mod Trees
mod Fronts
mod Steps
mod Adds
mod Leads
mod Ports
mod Rounds
mod Unfolds
mod Grows
