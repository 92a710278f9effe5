-- rows kept end to end in one list
pub mod Rows
