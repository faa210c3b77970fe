-- Document 02's editions of saved tables: what each holds, and how today's tables have it.
pub mod Editions
pub mod Steps
