pub mod ArrivalTimes
