mod SameTrees
mod OneTurn
