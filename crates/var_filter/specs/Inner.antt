pub mod FilterWindow
