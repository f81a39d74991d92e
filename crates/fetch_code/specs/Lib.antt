-- To believe: the code that fetches a row, what it reads, and what it does.
pub mod FetchBlock
