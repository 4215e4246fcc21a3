pub mod Shards
pub mod ShardLaws
