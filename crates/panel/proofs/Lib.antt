-- The theorems of the panel's row: the lines of one group at a time, that it is the row of the big buffer, and the worked edges of the call.
pub mod PanelLines
pub mod PanelRow
pub mod Worked
