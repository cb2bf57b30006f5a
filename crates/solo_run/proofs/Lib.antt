mod Stateless
mod Tables
mod Played
mod OnItsWay
mod Decisions
mod Turns
