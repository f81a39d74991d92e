-- To believe: counts, the answers of devices, files, and what a sink has taken.
pub mod Count
pub mod Fault
pub mod FolderCounts
pub mod Files
pub mod Written
-- To believe: what a folder and a sink in memory are.
pub mod MemFolder
pub mod MemSink
-- Inner: the files that a map stands for.
pub mod FileMap
