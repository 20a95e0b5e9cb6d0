-- Terms as variants that may be expanded.
mod Starting
