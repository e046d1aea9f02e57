-- What the exported calls of columns and of the listing answer, over the definitions of the library that they pass on to. The one that writes a column answers what `columns` defines.
pub mod ColumnCalls
pub mod ListingCall
