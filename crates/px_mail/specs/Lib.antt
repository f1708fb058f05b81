pub mod Mailbox
