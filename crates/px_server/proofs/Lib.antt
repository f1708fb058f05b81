mod Lending
mod Naming
mod Parts
mod Delivering
mod Ending
mod Taping
mod Making
