-- Solving a sheet, which every maker begins with: what is allowed (Meaning), the table of steps, the rounds and the answer that is due
-- (Model), what every maker promises (Promises).
pub mod Meaning
pub mod Model
pub mod Promises
pub mod Laws
