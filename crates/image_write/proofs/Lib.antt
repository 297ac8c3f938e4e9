-- Laws for the code: numbers and bytes put one after the other, exponents, stretches of marks, eight marks as a number, finding the runs, and the entry points.
pub mod PutLaws
pub mod SealLaws
pub mod ExponentLaws
pub mod StretchLaws
pub mod WordLaws
pub mod FindLaws
pub mod WriteLaws
