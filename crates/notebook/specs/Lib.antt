-- Document 01's notebook: its sheets, and one table of claims on them; and the counters that the program makes tables of.
pub mod Model
pub mod Laws
