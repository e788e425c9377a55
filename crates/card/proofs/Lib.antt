mod Joined
mod Settled
mod Promised
