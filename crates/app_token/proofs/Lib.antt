mod BitLists
mod Listing
