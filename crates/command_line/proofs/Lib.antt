-- Lemmas.
mod Told
mod Folders
