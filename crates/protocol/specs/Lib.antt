-- The definitions that the contracts of the text of the request stream cite.
pub mod Text
pub mod Inner
