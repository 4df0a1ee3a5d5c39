mod LineBreaks
mod Courses
mod Going
mod Replayed
mod Taken
mod Watched
mod Questions
mod Keeping
