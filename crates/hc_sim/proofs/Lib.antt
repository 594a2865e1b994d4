mod TextLemmas
mod Untouched
mod Turning
