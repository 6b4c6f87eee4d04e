mod Checked
mod NamesOnce
mod ReasonsTold
