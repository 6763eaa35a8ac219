-- The laws behind the proofs of the text of the request stream.
pub mod Digits
pub mod Conversions
pub mod Folds
pub mod Nans
pub mod Decimal
pub mod Printed
pub mod Samples
pub mod Words
