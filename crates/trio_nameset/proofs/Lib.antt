mod Less
mod Links
mod Search
