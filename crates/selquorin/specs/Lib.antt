pub mod PackedList
