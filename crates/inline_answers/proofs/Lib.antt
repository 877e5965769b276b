pub mod SameFails
