mod Runs
mod Blocks
mod Wanted
mod Misfits
mod Written
mod Read
mod Called
mod HandedOn
