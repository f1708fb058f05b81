mod Gains
