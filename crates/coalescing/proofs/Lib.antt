mod Lists
mod Copying
mod Contracting
mod Coalescing
