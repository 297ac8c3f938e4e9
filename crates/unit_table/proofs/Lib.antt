-- Laws of the table, and its agreement with the listing.
pub mod TableLaws
