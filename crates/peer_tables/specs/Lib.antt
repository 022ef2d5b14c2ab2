-- Peer rows by value, for programs. A reader must know: a table is asked as the lent rows would be (Table).
pub mod Table
