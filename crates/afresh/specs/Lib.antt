pub mod Fresh
pub mod Lists
pub mod Started
pub mod GivesBack
pub mod RoomExactly
