-- The numbers of the kinds, worked.
mod Worked
