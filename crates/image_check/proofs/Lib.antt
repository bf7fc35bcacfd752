-- The laws and the worked examples.
mod Examples
mod Noticed
mod Step
