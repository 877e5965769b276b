pub mod SelfCalls
pub mod Untailed
