mod Held
mod Booting
mod Present
mod Entries
mod Tables
mod PlanIs
mod Finished
