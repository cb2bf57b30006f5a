mod Items
mod Texts
mod Files
mod Statuses
mod Causes
