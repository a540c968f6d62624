mod SerialRun
mod Stepping
mod Replied
mod Admitted
