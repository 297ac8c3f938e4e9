-- The decode table and its agreement with the listing.
pub mod Table
