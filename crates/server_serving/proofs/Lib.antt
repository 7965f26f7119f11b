pub mod DeviceIds
