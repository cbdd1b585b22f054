mod Counting
mod Driving
mod Given
mod Handing
mod Idle
mod Logging
mod Marked
mod QueueKeys
