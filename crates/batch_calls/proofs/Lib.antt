mod SameMaps
mod SameSelects
