mod Following
mod Places
mod Pulling
mod SameEntries
mod Listing
mod PulledRoutes
