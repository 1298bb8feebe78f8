-- Between: loops that replace elements. Places: lanes that stay, places by their numbers. Powers: the window's power from squares made ahead.
pub mod Between
pub mod Places
pub mod Powers
