mod Firsts
mod Overs
mod Changed
