pub mod ValueWord
